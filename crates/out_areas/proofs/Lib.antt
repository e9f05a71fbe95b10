pub mod Everywhere
-- real constants
pub mod RealRecord
pub mod FoundReals
pub mod RealBytes
-- the out areas, byte by byte
pub mod OutAreas
pub mod Pieces
pub mod AddedPieces
pub mod AddedReals
pub mod CopiedSteps
