pub mod Measurements
pub mod Terms
