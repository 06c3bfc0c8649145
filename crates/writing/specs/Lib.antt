pub mod Refusals
pub mod Write
