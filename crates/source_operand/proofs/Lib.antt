pub mod Leaves
pub mod Short
