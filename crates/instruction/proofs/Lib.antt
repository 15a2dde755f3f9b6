pub mod Answers
pub mod Rows
pub mod Codes
pub mod Bounds
pub mod Sorts
pub mod Examples
