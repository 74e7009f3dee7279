pub mod AskLemmas
pub mod AnswerLemmas
pub mod Codes
pub mod Props
