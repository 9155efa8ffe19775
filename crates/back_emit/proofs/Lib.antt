pub mod WritingLaws
pub mod BranchLaws
pub mod ExprWords
