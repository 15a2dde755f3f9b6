pub mod Words
pub mod There
pub mod Back
pub mod RoundTrip
