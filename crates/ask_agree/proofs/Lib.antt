pub mod ConflictLaws
pub mod Decides
pub mod Undeclared
pub mod Answers
pub mod Examples
