pub mod FrameLaws
pub mod Answers
pub mod Reading
pub mod NullFrames
pub mod Exact
pub mod Damage
pub mod Witnesses
pub mod Checksums
