pub mod Hint
pub mod Block
