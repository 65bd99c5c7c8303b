pub mod Sides
pub mod Texts
pub mod Law
