pub mod Growing
pub mod Whole
pub mod Reading
pub mod Rewritten
pub mod Slots
