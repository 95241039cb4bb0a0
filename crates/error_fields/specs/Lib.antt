pub mod Errors
pub mod Contract
