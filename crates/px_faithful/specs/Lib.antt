pub mod Drops
pub mod Faithful
pub mod Jobs
