pub mod Check
pub mod Answers
pub mod CheckEntry
pub mod Memory
