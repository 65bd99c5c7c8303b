pub mod Serving
pub mod Wanted
pub mod Resting
pub mod Once
pub mod Kept
