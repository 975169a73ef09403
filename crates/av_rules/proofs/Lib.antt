pub mod KindFacts
pub mod Fronts
pub mod MapFacts
pub mod FirstRows
