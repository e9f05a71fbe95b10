-- records of a book, and the terms that they are
pub mod Trees
pub mod RecordBytes
pub mod Nodes
pub mod Layouts
pub mod Operators
pub mod RecordReadings
pub mod Children
pub mod NumberedNodes
-- the readers of numbers
pub mod Readings
pub mod Findings
pub mod Whole
-- meaning
pub mod Sums
