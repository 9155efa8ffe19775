pub mod Compiled
pub mod Verdict
pub mod Number
pub mod Judged
pub mod Statements
