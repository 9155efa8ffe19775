pub mod Told
pub mod HeardHolds
pub mod Examples
