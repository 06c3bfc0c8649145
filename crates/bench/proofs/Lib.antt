pub mod AnswerLaws
pub mod ReadLaws
