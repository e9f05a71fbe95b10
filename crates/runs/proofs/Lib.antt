-- rules
pub mod Rules
-- the records of a run, in bytes
pub mod RowRecords
pub mod RunRecords
pub mod StepAreas
pub mod StepRules
pub mod StepReading
-- before the first step, and what a step stands on
pub mod Prepared
pub mod Standing
