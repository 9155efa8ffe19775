pub mod Any
pub mod First
pub mod Closure
pub mod OrderIs
pub mod Passes
pub mod SetLaws
