mod PrintWalk
pub mod Pinned
