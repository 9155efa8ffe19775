pub mod Formula
pub mod Fields
pub mod Ends
