pub mod Disequality
pub mod Memory
