pub mod EncounterLaws
pub mod Decides
pub mod Examples
