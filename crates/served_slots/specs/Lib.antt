pub mod Admissions
pub mod Audits
pub mod Reserves
pub mod Rotations
pub mod Slots
pub mod Steps
