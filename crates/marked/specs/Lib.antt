pub mod Cases
pub mod Marked
pub mod Witnesses
pub mod MarkedPremises
