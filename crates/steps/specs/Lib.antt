pub mod CheckStep
pub mod Memory
