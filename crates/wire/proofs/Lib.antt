pub mod PackingLaws
pub mod EncodeLaws
