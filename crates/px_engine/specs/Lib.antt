pub mod Events
pub mod Seats
pub mod Sound
pub mod Told
