pub mod Air
