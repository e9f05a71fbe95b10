-- numbers
pub mod WholeProducts
-- walks of terms in memory
pub mod ConstantSides
-- steps of the rules in memory
pub mod Relations
pub mod SubtractedSides
pub mod SidesAreas
