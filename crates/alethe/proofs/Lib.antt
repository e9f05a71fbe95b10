-- numbers, keys and maps, whatever they stand for
pub mod NonzeroNumbers
pub mod Signs
pub mod TermInduction
-- shapes of terms, and what literals say
pub mod Literals
-- the Alethe side: la_generic, bounded_farkas and la_tautology
pub mod ConstraintLaws
-- the Alethe side: polynomials
pub mod Exponents
pub mod EquationSides
