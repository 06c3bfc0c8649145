pub mod EachLaws
pub mod SoundLaws
pub mod RangedLaws
