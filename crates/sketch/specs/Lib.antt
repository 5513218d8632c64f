pub mod Parts
pub mod Lines
pub mod Sketched
pub mod Held
pub mod Refined
pub mod Joined
pub mod Laws
pub mod Worked
