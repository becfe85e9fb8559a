pub mod PageLemmas
pub mod PartLemmas
pub mod SentLemmas
