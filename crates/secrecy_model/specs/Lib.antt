pub mod Sight
pub mod ModelRule
