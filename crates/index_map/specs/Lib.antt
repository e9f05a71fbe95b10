pub mod IndexMap
pub mod Memory
