pub mod Trail
pub mod Trace
pub mod Reply
pub mod Links
pub mod route
