pub mod Keywords
pub mod Lexical
pub mod Tokens
