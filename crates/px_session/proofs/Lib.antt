pub mod Served
pub mod Steps
pub mod Loops
pub mod Once
pub mod Kept
