pub mod Index
pub mod Whole
