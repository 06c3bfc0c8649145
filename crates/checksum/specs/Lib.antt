pub mod Checksums
pub mod FrameChecksum
pub mod Pair
