pub mod ServiceLemmas
