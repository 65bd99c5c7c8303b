pub mod Marks
pub mod Places
pub mod Pass
pub mod Analysis
