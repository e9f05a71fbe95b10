pub mod RunRecords
pub mod Faults
