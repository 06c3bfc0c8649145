pub mod Answers
pub mod Exact
pub mod Damage
pub mod Rewriting
