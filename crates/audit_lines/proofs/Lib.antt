pub mod LineLemmas
pub mod RoundLemmas
pub mod WriteLemmas
