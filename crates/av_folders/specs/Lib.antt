pub mod Bare
pub mod Folders
pub mod Locks
pub mod Repairs
