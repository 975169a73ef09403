pub mod Account
pub mod Saving
