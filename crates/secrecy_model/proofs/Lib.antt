pub mod Needed
pub mod Programs
pub mod Stores
pub mod Control
pub mod Answered
pub mod Twins
pub mod Changed
pub mod RuleHolds
