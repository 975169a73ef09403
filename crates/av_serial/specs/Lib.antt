pub mod Ready
pub mod Begun
pub mod Schedule
