pub mod Beside
pub mod Unmarked
