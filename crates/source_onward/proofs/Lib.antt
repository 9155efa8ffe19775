pub mod Stands
pub mod After
pub mod If
