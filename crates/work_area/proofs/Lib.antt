-- the areas of the work area
pub mod InsertLoops
pub mod AreaSums
pub mod IntAtoms
