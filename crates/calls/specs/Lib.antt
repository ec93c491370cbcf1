pub mod Words
pub mod Rows
pub mod Room
pub mod Lines
