pub mod Contexts
pub mod Sets
pub mod Sequence
pub mod Widening
pub mod Single
pub mod Joins
pub mod Choice
pub mod Lookahead
pub mod Repeats
pub mod Nesting
pub mod Growth
pub mod Whole
pub mod Loops
mod SampleRules
