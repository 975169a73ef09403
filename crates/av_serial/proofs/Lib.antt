pub mod Lands
pub mod Keeps
pub mod Begun
pub mod DueLoaded
pub mod Edits
pub mod RunSteps
