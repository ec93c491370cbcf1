pub mod Given
pub mod Read
pub mod Next
pub mod Made
pub mod Answer
