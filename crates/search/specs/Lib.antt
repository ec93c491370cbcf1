pub mod Look
pub mod Ready
