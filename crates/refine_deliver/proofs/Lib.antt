pub mod DeliveriesHold
pub mod Bound
pub mod Takes
pub mod Instances
