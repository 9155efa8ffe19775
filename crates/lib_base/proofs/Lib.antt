pub mod Pick
pub mod Prelude
pub mod Tools
