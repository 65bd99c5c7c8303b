mod Walk
mod Grouping
pub mod Trees
mod Collecting
mod Exactly
mod Numbering
mod Ranges
mod Kept
mod Touching
mod TouchWalk
mod TouchOrder
pub mod TouchWhere
mod Rising
mod ByNode
pub mod Elements
pub mod Inserting
pub mod Ordered
pub mod Typing
