pub mod Leaves
pub mod Contract
pub mod Records
