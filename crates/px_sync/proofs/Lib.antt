mod SentWalk
mod Sets
pub mod Truths
pub mod Keeping
mod SentWhere
mod Putting
mod Right
