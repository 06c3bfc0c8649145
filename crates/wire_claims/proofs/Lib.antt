pub mod Answers
pub mod Streams
pub mod Witnesses
pub mod Known
