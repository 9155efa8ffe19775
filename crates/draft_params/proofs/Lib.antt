pub mod Steps
pub mod PassiveNodes
pub mod Fills
