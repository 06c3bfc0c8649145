pub mod Channel
pub mod Slot
pub mod Cycle
pub mod Microtick
