pub mod Figure3
pub mod Turns
