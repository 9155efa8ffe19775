pub mod Laws
pub mod RestLaws
