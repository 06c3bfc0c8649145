pub mod Answers
pub mod Typed
pub mod Content
pub mod Sound
pub mod Histories
pub mod Witnesses
