pub mod Requests
pub mod Skipping
pub mod Refusals
pub mod Olds
