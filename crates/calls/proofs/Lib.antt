pub mod Putting
pub mod Shown
pub mod Table
pub mod Answering
pub mod Samples
