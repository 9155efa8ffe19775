pub mod Entry
pub mod Draft
pub mod Sizes
pub mod Tags
