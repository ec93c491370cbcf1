pub mod Scanning
pub mod Splitting
pub mod Digits
pub mod Decoding
pub mod Pieces
pub mod Taking
pub mod Looking
pub mod Samples
