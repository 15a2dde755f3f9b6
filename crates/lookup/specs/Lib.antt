pub mod Entries
pub mod Lookup
