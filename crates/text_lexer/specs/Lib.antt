pub mod Codes
pub mod Marked
pub mod Scanned
