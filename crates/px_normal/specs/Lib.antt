pub mod First
pub mod Words
pub mod Run
pub mod CodeRun
pub mod Typed
