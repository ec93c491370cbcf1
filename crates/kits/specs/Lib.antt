pub mod Order
pub mod Kit
pub mod Runs
