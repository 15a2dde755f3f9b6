pub mod Slots
pub mod Wide
pub mod Rows
