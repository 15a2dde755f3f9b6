pub mod Lent
pub mod Came
pub mod Reached
