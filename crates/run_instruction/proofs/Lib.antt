pub mod AllowedLaws
pub mod StackLaws
pub mod Examples
pub mod Arms
pub mod Shallow
pub mod Performs
pub mod Puts
pub mod Late
