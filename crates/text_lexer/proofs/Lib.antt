pub mod Laws
pub mod Marked
