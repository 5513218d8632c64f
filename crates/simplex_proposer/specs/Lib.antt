pub mod Multipliers
