pub mod Marking
pub mod Flows
pub mod Closing
pub mod Beginning
pub mod Passes
