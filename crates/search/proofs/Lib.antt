pub mod Choice
pub mod Filled
pub mod Standing
pub mod Start
pub mod Trials
