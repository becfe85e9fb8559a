pub mod Entries
pub mod Judgements
