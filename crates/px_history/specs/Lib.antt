pub mod Attempts
pub mod Booked
pub mod Legal
pub mod Locking
pub mod Moves
pub mod Places
pub mod Serial
pub mod State
