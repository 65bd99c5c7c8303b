pub mod Granted
pub mod Runs
pub mod Stands
pub mod Totals
pub mod Tries
pub mod Whole
