pub mod Sums
pub mod Values
pub mod Steps
pub mod Seats
pub mod Whole
pub mod Ranks
