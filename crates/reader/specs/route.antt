pub mod Scanned
pub mod Scan
pub mod Names
pub mod Targets
pub mod Tails
pub mod Build
