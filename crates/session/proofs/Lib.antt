pub mod Exact
pub mod Watching
