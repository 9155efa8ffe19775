pub mod HalvesHold
pub mod Instances
