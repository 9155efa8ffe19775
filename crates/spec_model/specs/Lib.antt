pub mod Carried
pub mod Model
pub mod Claims
pub mod Sound
pub mod Evaluated
pub mod Told
