pub mod CountLaws
pub mod CountIs
