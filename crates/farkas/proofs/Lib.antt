-- one step
pub mod NothingInferred
pub mod InferredUntil
pub mod TracedFold
pub mod ElaboratedStep
