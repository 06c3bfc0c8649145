pub mod Bits
pub mod Division
pub mod Polynomial
pub mod Word
pub mod Differing
pub mod Distance
pub mod Facts
pub mod Table
