pub mod Orders
pub mod SameTables
pub mod Remedies
pub mod Changes
