pub mod Farkas
pub mod Memory
