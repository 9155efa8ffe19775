pub mod Pooled
pub mod Declared
pub mod Together
