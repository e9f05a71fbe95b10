-- the laws of each rule that the theorems on runs need
pub mod RuleLaws
pub mod ShapeLaws
pub mod LinearLaws
pub mod PolynomialLaws
pub mod EachRule
-- the demands: meaning
pub mod RunTerms
pub mod Limits
pub mod Words
pub mod Meeting
pub mod Truth
-- what is written, and read and marked again
pub mod Memory
pub mod Unrefused
pub mod WrittenRuns
pub mod WrittenSteps
pub mod TailBook
pub mod WrittenTail
pub mod Storing
pub mod SecondMarking
pub mod ElaboratedSteps
pub mod Elaboration
-- runs in memory
pub mod ElaborateLoops
pub mod ClosedAreas
pub mod ElaboratePromise
pub mod TestedPremises
