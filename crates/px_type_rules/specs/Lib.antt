pub mod Breaches
pub mod Operators
pub mod Literals
