pub mod Cuts
pub mod Fields
pub mod Words
pub mod Ends
