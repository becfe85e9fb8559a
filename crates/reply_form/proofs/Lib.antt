pub mod FixedLemmas
