pub mod Best
pub mod In
pub mod Laws
pub mod Range
