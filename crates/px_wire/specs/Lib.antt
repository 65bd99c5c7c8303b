pub mod Numbers
pub mod Spelling
pub mod Order
pub mod Fitting
pub mod Reading
pub mod Wording
