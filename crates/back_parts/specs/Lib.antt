pub mod RightWords
