pub mod Sight
pub mod Turns
pub mod Views
