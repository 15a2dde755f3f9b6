pub mod Spans
pub mod Masks
pub mod Nonzero
pub mod Taints
pub mod Sources
