pub mod Wraps
pub mod Whole
pub mod Keeping
