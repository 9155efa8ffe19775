pub mod Demand1
pub mod Demand2
pub mod Requests
pub mod Texts
pub mod Claims
pub mod Deliveries
