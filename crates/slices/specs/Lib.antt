pub mod Cleared
pub mod Written
pub mod Contract
