pub mod Packing
pub mod Nibbles
pub mod Fields
pub mod Order
pub mod Seen
pub mod Places
