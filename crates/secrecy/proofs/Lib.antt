pub mod Numbers
pub mod Agreement
pub mod Halves
pub mod Steps
