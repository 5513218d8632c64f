pub mod Points
pub mod Groups
pub mod Kept
pub mod Caches
pub mod Ends
pub mod Laws
pub mod Worked
