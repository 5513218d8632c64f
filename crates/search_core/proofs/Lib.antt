mod Steps
mod Moving
pub mod Nodes
mod Table
mod Handling
mod Hands
mod Keeping
mod Histories
mod Going
mod Ending
