pub mod ConeDecides
pub mod Answers
pub mod ValuesHold
pub mod Examples
pub mod InOrderHolds
pub mod Instances
