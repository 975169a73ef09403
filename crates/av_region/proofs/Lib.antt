pub mod Numbers
pub mod Positions
pub mod Steps
pub mod Written
pub mod Law
