pub mod Laws
pub mod RowLaws
pub mod SheetLaws
pub mod RowNames
pub mod Examples
pub mod FaultTable
pub mod Refused
