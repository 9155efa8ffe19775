pub mod BoundsLaws
pub mod Examples
pub mod Ranges
pub mod Codes
