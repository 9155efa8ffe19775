pub mod Demand
pub mod Replay
pub mod RowOfSteps
pub mod RestDay
pub mod Beyond
pub mod Kinds
