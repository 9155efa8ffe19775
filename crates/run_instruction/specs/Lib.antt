pub mod Stack
pub mod Allowed
pub mod Instruction
pub mod Execution
