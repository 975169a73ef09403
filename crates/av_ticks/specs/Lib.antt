pub mod Entries
pub mod Marked
pub mod Held
pub mod Rising
pub mod Stored
pub mod Ticks
