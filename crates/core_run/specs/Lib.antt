pub mod Cores
pub mod Machine
pub mod Places
pub mod Services
pub mod States
