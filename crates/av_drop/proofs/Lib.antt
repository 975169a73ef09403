pub mod Spots
pub mod Walks
pub mod Ahead
pub mod Nearest
mod Bits
mod Shifts
mod Marks
