pub mod LinearComb
pub mod Memory
