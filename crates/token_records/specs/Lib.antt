pub mod Push
pub mod Tested
pub mod Contract
