pub mod Offsets
pub mod Light
pub mod Flooding
pub mod Board
pub mod Quiet
pub mod Blocks
pub mod Spots
