pub mod After
pub mod Audits
pub mod Calls
pub mod Differences
pub mod Passes
pub mod Spares
