pub mod HistoryMaps
pub mod Markers
pub mod NextPairs
pub mod PairFaults
pub mod PairLists
pub mod Pairs
pub mod Slots
pub mod Told
