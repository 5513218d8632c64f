pub mod QueryParts
pub mod Answers
