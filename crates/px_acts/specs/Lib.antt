pub mod Undo
pub mod Stops
pub mod Places
pub mod Ends
pub mod Standings
pub mod Slots
pub mod Did
pub mod Answers
