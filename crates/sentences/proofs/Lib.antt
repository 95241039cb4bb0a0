pub mod Saying
pub mod Spelled
pub mod Messages
