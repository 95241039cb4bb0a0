pub mod Rules
pub mod Post
pub mod Contract
