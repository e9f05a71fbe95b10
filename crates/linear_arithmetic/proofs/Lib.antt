-- the areas of the work area
pub mod Emptied
-- steps of the rules in memory
pub mod ReadParts
pub mod NoAtoms
pub mod FoldedSteps
pub mod FoldedAreas
pub mod PartialEnd
pub mod PartialFold
pub mod Tautologies
