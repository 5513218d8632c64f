pub mod Answers
pub mod Searched
pub mod Kept
pub mod Laws
