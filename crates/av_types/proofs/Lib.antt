pub mod Coordinates
pub mod SamePositions
pub mod HeightNumbers
pub mod OrderLemmas
pub mod Each
pub mod Exits
