pub mod Alethe
pub mod AletheTerms
pub mod AletheDifferences
pub mod AletheExamples
