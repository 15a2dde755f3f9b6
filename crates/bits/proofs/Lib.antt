pub mod Choices
pub mod Parts
pub mod Offsets
pub mod Bytes
pub mod Extensions
pub mod Lists
pub mod Spans
pub mod Joining
