pub mod Active
pub mod Cored
pub mod Kept
pub mod Laws
pub mod Next
