pub mod Orders
pub mod Signatures
pub mod Definitions
pub mod Aliased
pub mod Modules
