pub mod Computes
