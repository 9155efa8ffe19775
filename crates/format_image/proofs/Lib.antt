pub mod PutWords
pub mod ImageLaws
pub mod Examples
