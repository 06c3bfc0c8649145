pub mod Over
pub mod Putting
