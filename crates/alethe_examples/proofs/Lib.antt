-- examples of the Alethe side
pub mod ExampleLaws
pub mod AletheExamples
pub mod PolynomialExamples
pub mod StepInversions
pub mod AletheRefusals
pub mod DepartureInversions
pub mod AletheDepartures
pub mod ShapeDepartures
pub mod AletheDifferences
pub mod ExpansionInversions
pub mod AletheNearMisses
