pub mod Keeping
pub mod Kept
pub mod Nexts
pub mod Servable
pub mod Singles
