pub mod Lexemes
pub mod Words
pub mod Roles
pub mod Literals
