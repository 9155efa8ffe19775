pub mod Pair
pub mod Claims
pub mod Flags
