pub mod Homes
pub mod Keeps
pub mod Sends
pub mod Found
pub mod Law
