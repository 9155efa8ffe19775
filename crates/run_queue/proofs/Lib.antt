pub mod Choice
pub mod Above
pub mod Better
