pub mod LeakLaws
pub mod Examples
