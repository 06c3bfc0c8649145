pub mod State
pub mod Sound
pub mod Loading
pub mod Opening
