pub mod Answers
pub mod Tickets
