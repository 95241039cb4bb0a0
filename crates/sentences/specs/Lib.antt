pub mod Said
pub mod Spelling
pub mod Messages
pub mod Contract
