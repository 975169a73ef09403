pub mod Names
pub mod Regions
