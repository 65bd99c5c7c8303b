pub mod Types
pub mod Emit
pub mod Expressions
pub mod Statements
pub mod Allocations
pub mod Methods
pub mod Programs
