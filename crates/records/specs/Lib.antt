pub mod Replies
pub mod Space
