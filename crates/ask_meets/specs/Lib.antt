pub mod Marks
pub mod Meeting
pub mod Strict
pub mod Marking
