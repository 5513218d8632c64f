pub mod Truths
pub mod Folds
