pub mod DecisionLemmas
pub mod OverrideLemmas
