pub mod Division
pub mod Positions
pub mod Water
pub mod Faults
pub mod Options
pub mod Order
