pub mod Joined
pub mod Told
pub mod Join
pub mod Statements
pub mod Sizes
