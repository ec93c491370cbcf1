pub mod Rules
pub mod Packing
pub mod Linking
