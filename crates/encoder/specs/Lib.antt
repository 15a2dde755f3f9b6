pub mod Encoding
pub mod Exact
pub mod route
