pub mod Rule
pub mod Same
pub mod Exact
pub mod Refused
