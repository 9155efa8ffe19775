pub mod OrderingLaws
pub mod OrderingIs
