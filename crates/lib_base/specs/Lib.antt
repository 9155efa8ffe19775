pub mod Basics
pub mod Words
