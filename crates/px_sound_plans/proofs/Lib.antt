pub mod Led
pub mod StatementsOf
pub mod PlacedWell
pub mod Laid
pub mod WordsWhere
pub mod Covered
pub mod Sound
pub mod Entries
