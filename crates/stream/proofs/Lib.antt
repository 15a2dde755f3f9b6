pub mod Splits
pub mod Returns
pub mod Calls
pub mod Rooms
