pub mod Plans
pub mod Brought
pub mod Handed
