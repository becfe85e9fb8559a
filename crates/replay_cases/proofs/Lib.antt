pub mod TextLemmas
pub mod TallyLemmas
