pub mod Pieces
pub mod Decimals
