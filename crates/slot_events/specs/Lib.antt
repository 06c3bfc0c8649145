pub mod Effect
pub mod Events
