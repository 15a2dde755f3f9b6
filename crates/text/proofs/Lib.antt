pub mod Packing
pub mod Numbers
pub mod Hinted
pub mod Forms
pub mod Lengths
pub mod Clean
pub mod Examples
