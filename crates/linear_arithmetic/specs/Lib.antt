pub mod LinearArithmetic
pub mod Memory
