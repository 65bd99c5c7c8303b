pub mod Systems
pub mod Sites
pub mod System
pub mod Search
pub mod Sets
