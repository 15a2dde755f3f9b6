pub mod Hints
pub mod Texts
pub mod Examples
pub mod route
