pub mod Sections
pub mod Lamps
pub mod Light
