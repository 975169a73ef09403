pub mod Ticks
pub mod Chunk
pub mod Layout
pub mod Law
pub mod Stored
pub mod Working
pub mod Entries
