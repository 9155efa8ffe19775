pub mod Examples
pub mod Tell
