pub mod Handler
pub mod Behaviour
