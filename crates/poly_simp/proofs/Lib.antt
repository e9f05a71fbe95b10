-- combinations and products in memory
pub mod TurnedEntries
pub mod Moduli
-- steps of the rules in memory
pub mod PolynomialDifferences
pub mod PolynomialSides
pub mod SortBounds
pub mod SimpSteps
