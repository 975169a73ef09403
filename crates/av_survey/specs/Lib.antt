pub mod Counting
pub mod Listing
pub mod Survey
