pub mod Counting
pub mod Pieces
