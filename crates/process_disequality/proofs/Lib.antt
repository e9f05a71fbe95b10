-- steps of the rules in memory
pub mod LiteralArguments
pub mod LiteralAreas
pub mod LiteralSums
pub mod ProcessedLiterals
