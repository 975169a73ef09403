pub mod Orders
pub mod Gathering
