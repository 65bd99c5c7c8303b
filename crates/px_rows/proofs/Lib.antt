pub mod Order
pub mod AtNode
pub mod Back
pub mod Seen
pub mod Does
pub mod Left
pub mod Types
