pub mod Describe
