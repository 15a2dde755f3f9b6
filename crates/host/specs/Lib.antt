pub mod Replies
pub mod Hosting
