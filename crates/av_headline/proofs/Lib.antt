pub mod SameFiles
pub mod Alike
pub mod Three
