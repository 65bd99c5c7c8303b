pub mod Lists
pub mod Keeping
pub mod Cuts
pub mod Parts
pub mod Rights
pub mod Stretches
pub mod Rows
pub mod Methods
