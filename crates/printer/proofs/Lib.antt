pub mod Spilling
pub mod Writes
