pub mod Answer
pub mod Told
pub mod Leaking
pub mod Leak
