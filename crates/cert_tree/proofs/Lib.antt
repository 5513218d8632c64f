pub mod Soundness
pub mod Bounds
pub mod Assembled
pub mod Laying
pub mod Balance
pub mod Tops
mod Greatest
pub mod Walking
pub mod Values
pub mod Multipliers
pub mod Paths
pub mod Counts
