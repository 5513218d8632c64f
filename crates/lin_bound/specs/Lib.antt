pub mod Sums
pub mod Problem
pub mod Box
pub mod Bound
pub mod Weights
pub mod Activities
pub mod Laws
