pub mod Fields
pub mod Scanner
