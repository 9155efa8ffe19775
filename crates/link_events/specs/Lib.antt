pub mod Merging
pub mod Written
pub mod Sizes
