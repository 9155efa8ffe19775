pub mod Examples
pub mod Swap
pub mod Opened
