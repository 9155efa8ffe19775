pub mod Lengths
pub mod Examples
pub mod KindNumbers
