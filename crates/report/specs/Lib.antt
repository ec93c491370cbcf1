pub mod Listing
pub mod Asking
