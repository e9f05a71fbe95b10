pub mod PolySimpRel
pub mod Memory
