pub mod Within
pub mod Numbers
pub mod Lines
pub mod Answers
pub mod Examples
