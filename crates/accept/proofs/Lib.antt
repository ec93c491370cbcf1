pub mod Search
