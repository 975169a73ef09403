pub mod Plain
pub mod Staying
pub mod Distinct
