pub mod Plains
pub mod Coding
pub mod Examples
pub mod route
