pub mod PolySimp
pub mod Memory
