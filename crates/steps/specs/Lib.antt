pub mod Tokens
pub mod Shows
pub mod Contract
pub mod Records
