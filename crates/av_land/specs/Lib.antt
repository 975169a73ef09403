pub mod Land
pub mod Tick
pub mod Moved
pub mod Good
pub mod Resumed
pub mod Idle
