pub mod Lines
pub mod Ours
pub mod Says
pub mod After
