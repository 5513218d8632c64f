pub mod Verdicts
pub mod Lines
pub mod Packages
pub mod Trees
pub mod Laws
