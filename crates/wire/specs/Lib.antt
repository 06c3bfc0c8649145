pub mod Stream
pub mod Packing
pub mod Refusals
pub mod Encode
pub mod Pending
