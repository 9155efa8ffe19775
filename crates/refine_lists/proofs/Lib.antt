pub mod Standing
pub mod Tables
pub mod ListsHold
pub mod Bytes
pub mod Sheets
pub mod OnlyCallsHold
pub mod FromSheets
pub mod Instances
