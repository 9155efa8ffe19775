pub mod Behaviours
pub mod Usable
pub mod Whole
