pub mod Shows
pub mod Halves
pub mod route
