pub mod ByNames
pub mod Decides
pub mod LeaklessHolds
pub mod Instances
