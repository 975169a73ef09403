pub mod EntryOrder
pub mod Holding
pub mod Index
pub mod Kept
pub mod Least
pub mod Lookup
pub mod Marks
pub mod Times
