pub mod OverLaws
pub mod NumberLaws
pub mod PuttingLaws
