pub mod Agreement
pub mod Final
