pub mod Encounter
pub mod AgreeFor
pub mod Claims
