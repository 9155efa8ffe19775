pub mod Laws
pub mod BehavioursAre
pub mod EventsAre
pub mod Spliced
