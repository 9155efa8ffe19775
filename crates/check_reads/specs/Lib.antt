pub mod First
pub mod Sets
pub mod InResponse
pub mod Named
