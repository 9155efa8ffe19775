pub mod AssembleNumber
pub mod Assemble
