pub mod Exact
pub mod Functions
pub mod Marked
