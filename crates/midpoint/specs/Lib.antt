pub mod Midpoint
pub mod Order
pub mod Words
