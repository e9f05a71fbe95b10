pub mod Verdict
pub mod Rule
pub mod Run
pub mod Memory
