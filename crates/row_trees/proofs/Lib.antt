pub mod BlockActs
pub mod BlockFits
pub mod FitLemmas
pub mod HalfwayLemmas
pub mod NewRows
pub mod Parts
pub mod CheckpointLemmas
pub mod RowSwaps
