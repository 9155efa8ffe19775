pub mod Splice
pub mod Sizes
