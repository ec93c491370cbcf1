pub mod Puts
pub mod Spells
pub mod Decimals
pub mod Rooms
pub mod Samples
