pub mod LawLemmas
pub mod LentLemmas
pub mod NumberLemmas
pub mod RotateLemmas
pub mod TellLemmas
pub mod TendLemmas
pub mod TurnLemmas
