pub mod AttendingLemmas
pub mod CommandLemmas
pub mod OperatorLemmas
pub mod ReplayLemmas
pub mod RunLemmas
pub mod ServeLemmas
pub mod SignLemmas
