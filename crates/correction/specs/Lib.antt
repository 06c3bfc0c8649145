pub mod Deviation
pub mod Values
pub mod Terms
pub mod External
