pub mod EvaluateLaws
pub mod NodesAre
pub mod FreshIs
