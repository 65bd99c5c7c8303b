pub mod Apart
pub mod Book
pub mod Counts
pub mod Guards
pub mod Place
pub mod Progress
pub mod Rows
pub mod Serially
