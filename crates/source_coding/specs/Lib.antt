pub mod Faults
pub mod FaultWords
pub mod Places
pub mod Sizes
pub mod Bounds
