pub mod FieldLemmas
pub mod PolicyLemmas
