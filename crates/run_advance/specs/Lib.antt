pub mod Mark
pub mod Advance
