pub mod Rule
pub mod Fits
pub mod Choice
pub mod Moves
pub mod Still
pub mod Steps
pub mod Examples
