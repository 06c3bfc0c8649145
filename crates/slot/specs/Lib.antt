pub mod Judging
pub mod Opening
pub mod Sound
