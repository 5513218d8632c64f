pub mod Fields
pub mod Loading
pub mod Between
pub mod Laws
