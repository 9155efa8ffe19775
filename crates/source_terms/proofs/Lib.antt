pub mod Terms
pub mod Writing
pub mod Applied
