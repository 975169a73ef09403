pub mod Given
pub mod AtIndices
