pub mod Lists
pub mod Lowest
pub mod Pairs
pub mod Same
pub mod Ascends
