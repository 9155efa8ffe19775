pub mod Masking
pub mod Board
