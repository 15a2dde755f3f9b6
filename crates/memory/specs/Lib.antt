pub mod Taints
pub mod Sources
pub mod route
