pub mod Kept
pub mod Facts
pub mod Cutting
pub mod Keep
