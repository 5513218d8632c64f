pub mod Package
pub mod Query
pub mod Meaning
pub mod Plain
pub mod Search
