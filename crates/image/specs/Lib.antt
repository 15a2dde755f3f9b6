pub mod Lines
pub mod Records
pub mod Import
pub mod Faults
pub mod Last
pub mod Hex
pub mod route
