pub mod Polynomial
pub mod Memory
