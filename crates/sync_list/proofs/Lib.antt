pub mod AmongLaws
pub mod PlaceLaws
pub mod ListLaws
