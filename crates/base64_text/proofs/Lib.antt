pub mod AlphabetLemmas
pub mod DecodingLemmas
