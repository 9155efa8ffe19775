pub mod Turns
pub mod Primaries
pub mod Choices
