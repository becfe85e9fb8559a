pub mod MeaningLemmas
pub mod ReadingLemmas
pub mod StringLemmas
pub mod TokenLemmas
