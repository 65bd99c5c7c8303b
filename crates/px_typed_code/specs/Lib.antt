pub mod Values
pub mod Laws
pub mod Nodes
pub mod Sizes
