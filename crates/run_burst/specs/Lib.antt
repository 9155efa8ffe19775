pub mod Commit
pub mod Burst
pub mod Progress
