pub mod Rests
pub mod Rows
pub mod Glue
pub mod Examples
