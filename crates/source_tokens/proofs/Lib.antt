pub mod Bytes
pub mod Runs
pub mod Rows
pub mod Scanned
pub mod Begun
pub mod Opened
pub mod Spelling
pub mod Words
