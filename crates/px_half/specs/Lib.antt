pub mod Undo
pub mod Machine
pub mod End
pub mod Messages
pub mod Absorbed
pub mod Carry
pub mod Law
pub mod Stops
