pub mod Packages
pub mod Sums
pub mod Verdicts
