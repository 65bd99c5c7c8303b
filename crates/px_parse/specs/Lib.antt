pub mod Trees
pub mod Grammar
pub mod Reading
pub mod Heads
pub mod Places
pub mod Programs
pub mod Law
