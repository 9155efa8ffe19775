pub mod Phrase
