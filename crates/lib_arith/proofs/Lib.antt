pub mod Laws
pub mod ArithLaws
pub mod FloorLaws
pub mod Examples
pub mod Wide
