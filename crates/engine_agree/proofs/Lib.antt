pub mod AgreementHolds
pub mod Computed
pub mod FinalHolds
pub mod Lights
pub mod Instances
