pub mod Decimals
pub mod Rows
