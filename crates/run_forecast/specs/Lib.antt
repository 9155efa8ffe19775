pub mod Steps
pub mod Forecast
