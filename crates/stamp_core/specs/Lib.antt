pub mod CoreAudits
pub mod CoreSteps
pub mod Ranges
pub mod Rotations
pub mod Sweeps
pub mod Tending
pub mod Tickets
