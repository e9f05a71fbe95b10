-- numbers, entries and maps in bytes
pub mod MonomialBytes
pub mod StoredMonomials
pub mod AtomPlaces
pub mod PlacedAtoms
-- the areas of the work area
pub mod MonomialEntry
pub mod StackAreas
-- combinations and products in memory
pub mod EntryTurns
pub mod ProductEntries
pub mod EntryAnswers
pub mod ProductTasks
pub mod Products
