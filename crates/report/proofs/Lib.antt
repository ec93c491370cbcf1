pub mod Digits
pub mod Samples
pub mod Filling
pub mod Heads
pub mod Showing
