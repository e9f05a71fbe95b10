-- What lies in lent memory, in terms of the definitions that say what is right.
pub mod Answers
pub mod StoredMaps
pub mod Entries
