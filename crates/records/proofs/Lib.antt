pub mod Replies
pub mod Spaces
