pub mod Parts
pub mod Groups
pub mod Exact
pub mod Open
pub mod Stretches
