pub mod Scans
pub mod Parses
pub mod Readings
pub mod Answers
pub mod Deeper
pub mod Sheets
pub mod Examples
