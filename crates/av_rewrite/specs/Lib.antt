pub mod Regions
pub mod Rewriting
