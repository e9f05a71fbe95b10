pub mod AnswerBytes
pub mod AnswerBounds
