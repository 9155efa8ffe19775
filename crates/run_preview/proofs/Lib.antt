pub mod Arrived
pub mod ToIdle
pub mod Examples
pub mod Opened
