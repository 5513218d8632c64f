pub mod Views
pub mod Rule
pub mod Handles
pub mod Answers
pub mod Stations
