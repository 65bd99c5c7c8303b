pub mod Run
pub mod Act
pub mod Cells
pub mod Rows
pub mod Operations
