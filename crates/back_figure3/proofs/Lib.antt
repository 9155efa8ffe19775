pub mod Parts
pub mod Derived
pub mod Compiles
pub mod SecondPhase
pub mod Examples
