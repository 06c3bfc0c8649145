pub mod Answers
pub mod Streams
pub mod Known
