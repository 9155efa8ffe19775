pub mod Signature
pub mod Numbers
pub mod Levels
