pub mod CellLaws
pub mod Copies
