pub mod Shorter
pub mod Walks
pub mod LayerLaws
pub mod WalkLaws
pub mod Examples
