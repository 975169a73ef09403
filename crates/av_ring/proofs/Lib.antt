pub mod Totals
pub mod Steps
pub mod Seats
pub mod Ends
pub mod Fresh
