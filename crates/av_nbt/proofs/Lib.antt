mod Taken
mod TakenTags
mod Again
mod AgainTags
pub mod LawProofs
pub mod Written
mod Bytes
mod Loops
mod Sorting
mod Fewest
mod Sizes
