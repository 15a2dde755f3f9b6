pub mod Pieces
pub mod Hints
pub mod Lines
