pub mod Parts
pub mod Handlers
