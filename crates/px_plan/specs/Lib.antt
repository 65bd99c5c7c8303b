pub mod Prints
pub mod Compiled
pub mod Law
