pub mod BoundLemmas
pub mod KeyOrder
pub mod OneSpan
pub mod PointLemmas
pub mod RefusalLemmas
pub mod RiseLemmas
pub mod SpanLemmas
pub mod SplitLemmas
