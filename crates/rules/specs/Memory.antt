-- What lies in lent memory, in terms of the definitions that say what is right.
pub mod Parts
pub mod ShapeRecords
