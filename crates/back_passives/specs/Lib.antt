pub mod PassiveWords
pub mod Sizes
