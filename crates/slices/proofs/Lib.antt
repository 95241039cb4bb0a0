pub mod Writing
pub mod Clearing
