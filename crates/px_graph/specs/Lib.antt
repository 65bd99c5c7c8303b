pub mod Costs
pub mod Loads
pub mod Problem
