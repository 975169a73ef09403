pub mod Numbers
pub mod Nones
