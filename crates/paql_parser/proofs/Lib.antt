pub mod SumLemmas
pub mod AnswerLemmas
