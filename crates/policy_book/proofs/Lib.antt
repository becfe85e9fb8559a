pub mod EntryLemmas
pub mod JudgementLemmas
