mod AfterLemmas
pub mod AuditLemmas
mod LawLemmas
mod ListLemmas
mod ShownLemmas
mod SpareLemmas
