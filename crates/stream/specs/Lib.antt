pub mod Streams
pub mod Calls
