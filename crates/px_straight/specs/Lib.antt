pub mod Taken
pub mod Order
pub mod Simple
pub mod Straight
pub mod Laws
