pub mod CreatedLemmas
pub mod FirstLemmas
pub mod StoredRowLemmas
