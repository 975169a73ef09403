pub mod Steps
pub mod Names
pub mod Exchange
pub mod Marks
pub mod Outcomes
