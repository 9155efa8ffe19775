pub mod Compiled
