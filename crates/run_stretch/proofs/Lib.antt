pub mod Late
pub mod Foreign
