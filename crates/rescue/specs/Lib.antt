pub mod Lines
pub mod Rescue
pub mod Whole
pub mod route
