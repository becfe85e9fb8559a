pub mod FrameLemmas
pub mod CrashLemmas
pub mod WordLemmas
