pub mod Written
pub mod Input
pub mod Finished
pub mod Counted
