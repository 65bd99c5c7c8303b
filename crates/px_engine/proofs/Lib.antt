pub mod Seated
pub mod Seats
pub mod Steps
pub mod Telling
