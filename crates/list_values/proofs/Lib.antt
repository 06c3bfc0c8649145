pub mod ValueLaws
pub mod RangeLaws
