pub mod LinearTerms
pub mod Memory
