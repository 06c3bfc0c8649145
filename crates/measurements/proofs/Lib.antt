pub mod PermutedLaws
pub mod DifferentLaws
pub mod SmallestLaws
pub mod OrderLaws
pub mod RowInLaws
pub mod RowLaws
pub mod AddingLaws
