pub mod Known
pub mod Steps
pub mod Grow
pub mod Pieces
pub mod Declared
pub mod Loop
pub mod Whole
