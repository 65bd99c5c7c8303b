pub mod Slots
pub mod Marks
pub mod Names
pub mod Stack
pub mod Calls
pub mod Taken
pub mod Refused
pub mod There
