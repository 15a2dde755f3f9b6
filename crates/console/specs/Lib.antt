pub mod Came
pub mod Handled
