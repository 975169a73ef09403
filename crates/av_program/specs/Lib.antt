pub mod RunCommand
pub mod Running
pub mod DryRun
