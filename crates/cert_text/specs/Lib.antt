pub mod Numbers
pub mod Lines
pub mod Claims
pub mod Certs
pub mod Expected
pub mod Rules
pub mod Answers
