pub mod BlockCommand
pub mod CheckCommand
pub mod Tables
pub mod Shipped
pub mod Texts
