pub mod Refusals
pub mod Secrecy
pub mod Walks
pub mod Turns
pub mod Decisions
