pub mod ChannelLaws
pub mod SlotLaws
pub mod HeldLaws
