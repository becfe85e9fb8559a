pub mod FixedReplies
pub mod HeaderLines
pub mod ReplyBytes
