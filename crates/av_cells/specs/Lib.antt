pub mod Positions
pub mod World
pub mod Kinds
pub mod Rule
pub mod Turn
pub mod Wakes
pub mod Grid
pub mod Sets
