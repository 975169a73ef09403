pub mod Trees
pub mod Views
pub mod Names
pub mod Slots
pub mod Each
