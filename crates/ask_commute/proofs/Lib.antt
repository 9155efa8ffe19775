pub mod Adding
pub mod OnSet
pub mod CommuteOn
pub mod Cones
pub mod TwoLists
pub mod Examples
