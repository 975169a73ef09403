pub mod TagTypes
pub mod Nbt
pub mod View
pub mod ByName
pub mod Shape
