pub mod Rows
pub mod Terms
pub mod Fits
pub mod Asks
