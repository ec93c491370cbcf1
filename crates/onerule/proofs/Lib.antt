pub mod Outcomes
pub mod Places
pub mod Closures
