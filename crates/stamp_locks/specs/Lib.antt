pub mod InTurn
pub mod Lent
pub mod Rotations
pub mod Shown
