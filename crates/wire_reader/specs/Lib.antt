pub mod Decoder
pub mod Reader
pub mod Sound
pub mod Opening
pub mod Event
pub mod Listening
pub mod Pending
