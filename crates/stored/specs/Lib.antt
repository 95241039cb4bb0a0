pub mod Table
pub mod Clear
pub mod Nodes
pub mod Parts
pub mod Walk
