-- sorts
pub mod SortRules
pub mod SortCodes
pub mod RecordSorts
-- reading a book, in memory
pub mod BookReading
pub mod RecordChains
pub mod IndexedReading
-- the terms of a book that is read
pub mod Accepted
pub mod WellFormed
pub mod BookTerms
pub mod ArgumentsBelow
-- meaning
pub mod Fractions
pub mod Meaning
pub mod Vectors
