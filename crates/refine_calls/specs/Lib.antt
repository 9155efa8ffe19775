pub mod Refinement
pub mod Turns
