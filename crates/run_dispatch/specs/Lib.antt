pub mod Said
pub mod Dispatch
