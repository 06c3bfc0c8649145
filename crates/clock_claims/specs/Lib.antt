pub mod Typed
pub mod Answers
pub mod Sound
pub mod Reports
pub mod History
pub mod Histories
pub mod Witnesses
