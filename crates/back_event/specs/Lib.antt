pub mod Handlers
pub mod Steps
