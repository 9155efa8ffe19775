pub mod WitnessLaws
pub mod Shown
pub mod Examples
