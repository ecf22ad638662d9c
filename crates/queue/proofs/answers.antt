pub mod AnswerArea
