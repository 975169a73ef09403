pub mod Rows
pub mod Document
pub mod Views
pub mod Tables
pub mod KindLists
pub mod Kinds
pub mod Reads
pub mod FirstRows
