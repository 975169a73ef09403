pub mod Orders
pub mod Shares
pub mod Words
