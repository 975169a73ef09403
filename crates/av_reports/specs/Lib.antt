pub mod Names
pub mod Output
pub mod Reasons
pub mod Edits
