pub mod Placements
pub mod Sums
pub mod Choices
pub mod Good
pub mod Gains
pub mod Kept
pub mod Told
pub mod Laws
