pub mod Copied
pub mod Counting
