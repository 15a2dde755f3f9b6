pub mod Arms
pub mod Decodes
pub mod Products
