pub mod RowLemmas
pub mod Reading
pub mod HalfBytes
pub mod Together
pub mod LampLemmas
