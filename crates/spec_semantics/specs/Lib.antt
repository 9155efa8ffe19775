pub mod Rules
pub mod Meaning
pub mod Event
pub mod Rounds
pub mod Plays
pub mod Over
pub mod OverMeaning
