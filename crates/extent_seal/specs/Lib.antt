pub mod Appends
pub mod Counting
pub mod Extents
pub mod Heard
pub mod Repairs
pub mod Seals
pub mod Smallest
