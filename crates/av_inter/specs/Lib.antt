pub mod Out
pub mod Whole
pub mod Lawful
pub mod Refusals
pub mod Turned
pub mod Cut
pub mod Starting
pub mod Views
