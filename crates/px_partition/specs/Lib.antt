pub mod Runs
pub mod Weights
pub mod Graphs
pub mod Plans
pub mod Words
pub mod Texts
