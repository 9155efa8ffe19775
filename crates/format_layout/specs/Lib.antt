pub mod Layout
pub mod Foreign
pub mod Bounds
pub mod Round
pub mod Fresh
pub mod Sizes
