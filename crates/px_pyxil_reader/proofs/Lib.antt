pub mod Readers
pub mod NumbersRead
pub mod SignedRead
pub mod NamesRead
pub mod TextsRead
pub mod OperandsRead
pub mod StatementsRead
pub mod LinesRead
