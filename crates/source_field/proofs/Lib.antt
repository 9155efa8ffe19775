pub mod Laid
pub mod Parts
