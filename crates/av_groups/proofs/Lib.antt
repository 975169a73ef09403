pub mod OneTurn
pub mod Apart
pub mod Touched
pub mod Closed
pub mod Added
