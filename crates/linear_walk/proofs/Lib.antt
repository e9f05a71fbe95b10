pub mod NodeAnswers
pub mod NodeWalks
pub mod Places
pub mod WalkSteps
pub mod ArgWalks
