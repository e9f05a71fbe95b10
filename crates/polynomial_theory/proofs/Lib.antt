-- results, and what is refused
pub mod LimitedPolynomial
-- the converse: what the specification accepts, the Rust accepts
pub mod SortedMonomials
pub mod NeatMaps
pub mod NeatPolynomials
pub mod CollectedProducts
pub mod CollectedPolynomials
pub mod PolynomialConverse
pub mod RelationConverse
-- the Alethe side: polynomials
pub mod MonomialLaws
pub mod PolynomialProducts
pub mod TermReadings
pub mod PolynomialCases
pub mod PolynomialWalk
pub mod NumberReadings
pub mod VectorReadings
pub mod ProductRing
pub mod WrittenOut
pub mod LeafTerms
pub mod Reckonings
pub mod Expansions
pub mod Coefficients
pub mod GroupedProducts
pub mod PolynomialsEqual
pub mod RelationShapes
pub mod RelationRule
pub mod RelationNumbers
pub mod RelationSound
