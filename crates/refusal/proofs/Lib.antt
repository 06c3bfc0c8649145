pub mod FirstLaws
pub mod AnswerLaws
