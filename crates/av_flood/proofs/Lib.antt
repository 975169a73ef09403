pub mod Paths
pub mod Queues
pub mod Floods
pub mod Marks
pub mod Boards
pub mod Halves
pub mod Quiet
mod Beside
