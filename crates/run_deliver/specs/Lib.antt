pub mod Delivery
pub mod Told
pub mod Deliver
pub mod Outcomes
