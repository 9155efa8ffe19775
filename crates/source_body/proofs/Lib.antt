pub mod Steps
pub mod Stages
pub mod Written
pub mod Pieces
pub mod State
