pub mod Products
pub mod Sums
pub mod Legal
pub mod Sizes
pub mod Values
pub mod Duality
pub mod OnePoint
pub mod Halves
mod Cuts
mod Weights
mod PlainBounds
mod Paths
