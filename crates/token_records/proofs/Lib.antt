pub mod Chunks
pub mod Pushing
pub mod Tested
