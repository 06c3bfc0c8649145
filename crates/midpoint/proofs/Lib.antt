pub mod SortLaws
pub mod MiddleLaws
pub mod OrderLaws
pub mod RangeLaws
pub mod Words
