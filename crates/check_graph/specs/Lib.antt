pub mod Any
pub mod First
pub mod Matrix
pub mod Placing
pub mod Sets
