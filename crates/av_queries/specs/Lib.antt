pub mod BlockCommand
pub mod CheckCommand
pub mod MapCommand
pub mod StatesCommand
