pub mod Rest
pub mod Views
pub mod Reading
pub mod Light
