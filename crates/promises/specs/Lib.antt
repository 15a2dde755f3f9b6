pub mod Answered
pub mod Demands
pub mod Library
pub mod Numbers
pub mod Why
pub mod Plugins
pub mod Images
pub mod Rescue
