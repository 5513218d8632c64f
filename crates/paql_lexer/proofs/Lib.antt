pub mod FoundLemmas
pub mod GapLemmas
pub mod Quotes
pub mod Reached
pub mod Runs
pub mod TokenLemmas
pub mod Words
