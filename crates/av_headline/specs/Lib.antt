pub mod Answers
pub mod Resumed
