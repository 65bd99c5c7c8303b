pub mod Digits
pub mod Forms
pub mod StmtForms
pub mod Heads
pub mod Handed
pub mod Found
pub mod AllocationForms
