pub mod Answers
pub mod Taints
pub mod Origins
pub mod Reals
pub mod Exclusives
pub mod Writing
pub mod Vectors
