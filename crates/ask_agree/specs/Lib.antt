pub mod Answer
pub mod Told
pub mod Conflict
pub mod Agree
pub mod Claims
