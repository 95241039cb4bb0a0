pub mod Scan
pub mod Contract
