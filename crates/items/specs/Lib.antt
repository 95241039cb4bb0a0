pub mod Rules
pub mod Items
pub mod Contract
