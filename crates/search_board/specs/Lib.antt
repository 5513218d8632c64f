pub mod Values
pub mod Views
pub mod Rule
pub mod Steps
pub mod Handles
pub mod Laws
