pub mod Walk
pub mod Ends
pub mod Run
pub mod Secrecy
