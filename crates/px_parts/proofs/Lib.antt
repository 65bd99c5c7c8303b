pub mod Behind
pub mod Once
