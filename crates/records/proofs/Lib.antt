pub mod Tables
pub mod Reasons
