pub mod Board
pub mod Sides
pub mod Fronts
