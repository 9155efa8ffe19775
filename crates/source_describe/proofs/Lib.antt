pub mod Rights
pub mod Declarations
pub mod Turns
pub mod Texts
pub mod Examples
