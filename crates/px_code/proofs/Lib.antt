pub mod InPlace
pub mod Alone
pub mod Written
pub mod Staying
pub mod OneCut
