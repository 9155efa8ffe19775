pub mod Players
pub mod Declarations
