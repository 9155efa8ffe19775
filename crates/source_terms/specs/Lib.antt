pub mod Terms
pub mod Put
