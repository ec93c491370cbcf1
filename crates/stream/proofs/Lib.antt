pub mod Replying
pub mod Advancing
pub mod Turning
pub mod Writing
