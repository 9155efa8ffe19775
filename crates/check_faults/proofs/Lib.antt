pub mod Blank
pub mod NamesAgree
pub mod MatrixAgrees
pub mod CycleDecides
pub mod DraftChecks
pub mod RowLaws
pub mod Left
pub mod Search
