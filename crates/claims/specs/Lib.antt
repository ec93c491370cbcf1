pub mod Demands
pub mod Why
