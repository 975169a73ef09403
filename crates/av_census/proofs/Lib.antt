pub mod Weighing
pub mod Sections
pub mod Chunks
pub mod States
pub mod Adding
pub mod Files
