pub mod Columns
pub mod Near
pub mod Lamps
pub mod Lights
pub mod AtIndex
