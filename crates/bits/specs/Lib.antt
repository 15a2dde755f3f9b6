pub mod Choice
pub mod Fields
pub mod Signed
pub mod Bytes
pub mod Extension
pub mod route
