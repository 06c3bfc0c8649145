pub mod DeviationLaws
pub mod RefusalLaws
pub mod RecordedLaws
