pub mod Indices
pub mod Lines
