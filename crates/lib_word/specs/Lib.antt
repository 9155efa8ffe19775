pub mod Word
pub mod Halves
