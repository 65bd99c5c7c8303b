pub mod Scanning
pub mod Keywords
pub mod Names
pub mod Pieces
pub mod Ahead
pub mod Cutting
pub mod Spelling
pub mod Lexical
