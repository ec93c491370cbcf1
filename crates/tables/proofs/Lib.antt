pub mod Field
pub mod Handed
pub mod Straight
pub mod Through
