pub mod Refusal
pub mod Limits
pub mod Shapes
pub mod Memory
