pub mod Census
pub mod Counting
pub mod Listing
