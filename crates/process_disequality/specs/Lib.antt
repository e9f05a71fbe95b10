pub mod ProcessDisequality
pub mod Memory
