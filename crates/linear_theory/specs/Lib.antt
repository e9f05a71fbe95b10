pub mod Premises
