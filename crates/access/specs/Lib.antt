pub mod Transfers
pub mod Addressings
pub mod Accesses
pub mod route
