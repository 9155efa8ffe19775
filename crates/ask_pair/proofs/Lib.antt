pub mod PairLaws
pub mod Decides
pub mod Answers
pub mod Examples
