pub mod Loaded
pub mod Wakes
pub mod Sections
pub mod GridBlocks
