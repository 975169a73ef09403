pub mod Edited
pub mod Lit
pub mod Inputs
pub mod InputAnswers
pub mod Answered
pub mod Crossings
pub mod Uncovered
