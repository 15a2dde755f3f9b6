pub mod Alike
pub mod Naming
pub mod Arms
pub mod RoundTrip
pub mod Examples
