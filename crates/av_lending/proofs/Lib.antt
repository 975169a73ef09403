pub mod Stages
pub mod After
pub mod Turning
pub mod Chunks
pub mod Ends
pub mod Planned
