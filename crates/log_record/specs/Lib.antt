pub mod Fits
pub mod Forms
pub mod Outcomes
pub mod ReadFields
pub mod ReadRecords
pub mod Reading
pub mod Records
pub mod Sizes
