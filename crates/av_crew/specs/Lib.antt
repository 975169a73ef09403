pub mod Work
pub mod Answer
pub mod Workers
pub mod Jobs
pub mod Parts
pub mod Gathered
pub mod Counts
