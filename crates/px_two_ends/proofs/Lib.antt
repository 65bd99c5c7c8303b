pub mod Own
pub mod Programs
pub mod Numbers
