pub mod NameLemmas
pub mod Utf8Lemmas
