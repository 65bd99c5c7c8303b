pub mod Words
pub mod Plans
pub mod Laws
pub mod Runs
