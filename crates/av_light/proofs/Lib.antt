pub mod Reading
pub mod Lit
pub mod Filling
pub mod LampLists
pub mod InOrder
