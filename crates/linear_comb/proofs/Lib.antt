-- records that are noted
pub mod NotedAtoms
-- the areas of the work area
pub mod Areas
pub mod EntryPlaces
pub mod EntryLoops
pub mod AreaSteps
-- combinations and products in memory
pub mod CombinationLoops
pub mod ScaledCombinations
pub mod CoefficientDivisors

-- walks of terms in memory
