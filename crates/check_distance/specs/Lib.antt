pub mod Circle
pub mod Layers
