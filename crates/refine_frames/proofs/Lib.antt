pub mod FramesHold
pub mod Instances
