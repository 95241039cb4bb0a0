pub mod Bits
pub mod Choices
pub mod Table
pub mod Found
