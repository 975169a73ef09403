pub mod Crossings
pub mod Same
