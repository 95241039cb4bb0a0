pub mod Turn
pub mod Contract
