pub mod Walk
pub mod Describing
