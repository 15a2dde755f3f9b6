pub mod Types
pub mod Reading
pub mod Triangle
pub mod Examples
pub mod route
