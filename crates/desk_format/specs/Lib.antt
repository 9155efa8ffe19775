pub mod Script
pub mod Sizes
