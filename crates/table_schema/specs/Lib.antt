pub mod Columns
pub mod Named
pub mod Units
pub mod Cells
pub mod Rows
pub mod Laws
