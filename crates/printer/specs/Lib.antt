pub mod Writing
pub mod route
