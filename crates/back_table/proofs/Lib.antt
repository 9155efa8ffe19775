pub mod TableLaws
pub mod PassivesAre
pub mod TableIs
