pub mod Program
pub mod Meaning
pub mod Linear
pub mod Points
pub mod Numbers
pub mod Translation
pub mod Columns
