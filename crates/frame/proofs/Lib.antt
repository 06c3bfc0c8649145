pub mod ReadLaws
pub mod AnswerLaws
