pub mod Signed
pub mod Truth
pub mod Walk
pub mod Wide
