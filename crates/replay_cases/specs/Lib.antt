pub mod Texts
pub mod Tallies
