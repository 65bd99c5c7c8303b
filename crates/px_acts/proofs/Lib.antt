pub mod Writes
pub mod Undoes
pub mod Sizes
pub mod Short
pub mod Making
pub mod Blanks
pub mod WithOperands
pub mod Landing
