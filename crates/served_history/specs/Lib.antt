pub mod Connections
pub mod Fronts
pub mod Growth
pub mod Histories
pub mod Rotations
