-- verdicts and turns
pub mod Verdicts
pub mod Turns
-- steps and runs in memory
pub mod TurnOutcomes
pub mod CheckLoops
pub mod EntryPoints
