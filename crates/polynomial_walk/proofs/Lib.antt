-- walks of terms in memory
pub mod PolynomialSteps
pub mod NodeAnswers
pub mod PolynomialSums
pub mod PolynomialTermWalks
pub mod PolynomialArgWalks
pub mod PolynomialFactorWalks
pub mod PolynomialProducts
