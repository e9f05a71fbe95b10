pub mod Format
pub mod Book
pub mod Readers
pub mod Smtlib
pub mod BookExamples
pub mod MeaningExamples
pub mod Operator
pub mod Term
