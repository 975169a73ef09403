pub mod Slots
pub mod Writes
pub mod Numbers
