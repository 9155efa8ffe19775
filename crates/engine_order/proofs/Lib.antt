pub mod Blocks
pub mod PhonesHold
pub mod TablesSame
pub mod RemediesHold
pub mod ChangesHold
pub mod TakenHolds
pub mod PatientHolds
pub mod Instances
