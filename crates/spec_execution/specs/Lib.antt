pub mod Execution
pub mod Runs
pub mod CodeFacts
pub mod Safe
