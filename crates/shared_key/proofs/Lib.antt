pub mod Claims
pub mod Cuts
pub mod Gathered
pub mod Grouped
pub mod Named
pub mod Ordered
pub mod Pairs
