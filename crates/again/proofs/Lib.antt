pub mod JoinedBook
pub mod SecondAnswers
