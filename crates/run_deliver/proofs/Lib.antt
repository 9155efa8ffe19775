pub mod Examples
pub mod Room
pub mod Laws
