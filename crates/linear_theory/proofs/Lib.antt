-- results, and what is refused
pub mod LimitedLinear
pub mod UnlimitedLinear
-- numbers, keys and maps, whatever they stand for
pub mod KeyNames
pub mod NoZero
pub mod MapEntries
-- linear combinations: what terms and sums mean
pub mod LinearCases
pub mod LinearReadings
pub mod LinearValues
pub mod LinearWalk
pub mod LinearWeights
pub mod Weights
pub mod SumEntries
pub mod NormalCoefficients
pub mod NormalForms
pub mod LinearSums
pub mod LinearForms
pub mod Says
pub mod Multiples
pub mod Strengthening
-- steps that infer their arguments
pub mod Inferred
pub mod InferredNumbers
pub mod VisitsFree
-- shapes of terms, and what literals say
pub mod Oppositions
pub mod ShapeRules
pub mod BoundsForms
-- the Alethe side: la_generic, bounded_farkas and la_tautology
pub mod LiteralSides
pub mod SumsApart
pub mod Disequalities
pub mod LiteralSteps
pub mod Arguments
pub mod ConstraintSums
pub mod ConstraintFolds
pub mod GenericStrengthens
pub mod GenericLines
pub mod GenericFold
pub mod GenericForm
pub mod LinesHold
pub mod AtZero
pub mod GenericValid
pub mod GenericWords
pub mod TautologySound
-- the converse: what the specification accepts, the Rust accepts
pub mod ShapeConverse
pub mod TautologyConverse
pub mod BoundsAbove
pub mod StrengthenConverse
pub mod LineConverse
pub mod GenericConverse
