pub mod Walks
pub mod FirstFaults
