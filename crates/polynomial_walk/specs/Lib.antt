pub mod PolynomialTerms
pub mod Memory
