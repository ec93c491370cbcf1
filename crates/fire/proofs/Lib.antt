pub mod Tree
pub mod Agree
pub mod Fired
pub mod Table
pub mod AtRest
pub mod Closures
