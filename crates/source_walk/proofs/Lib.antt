pub mod Needed
pub mod Places
pub mod Heads
