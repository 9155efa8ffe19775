pub mod Leakless
