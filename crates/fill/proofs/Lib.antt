pub mod Says
pub mod Unique
