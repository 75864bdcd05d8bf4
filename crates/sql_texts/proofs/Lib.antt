pub mod AnswerFacts
pub mod OnLiterals
