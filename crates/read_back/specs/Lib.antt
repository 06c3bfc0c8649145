pub mod Sending
pub mod ReadBack
pub mod Disturbed
pub mod Witnesses
