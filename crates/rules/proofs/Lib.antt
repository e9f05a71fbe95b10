-- results, and what is refused
pub mod Results
pub mod Yields
-- numbers, whatever they stand for
pub mod Valuations
pub mod WholeNumbers
-- what an iterator over chunks of bytes gives
pub mod Chunks
-- terms and their arguments in memory
pub mod ArgumentsLeft
-- shapes, and the parts of a step, in memory
pub mod ShapeSteps
pub mod FormSteps
pub mod RunParts
pub mod ExpectedTerms
