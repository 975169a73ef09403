pub mod Handing
pub mod Telling
pub mod Closing
pub mod Steps
