pub mod Answer
pub mod Checked
