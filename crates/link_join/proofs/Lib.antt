pub mod JoinLaws
pub mod Limits
pub mod Says
pub mod Examples
