pub mod Window
pub mod Operands
pub mod Address
pub mod Refusals
pub mod Admission
pub mod Ranges
pub mod Plans
pub mod route
