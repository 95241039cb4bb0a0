pub mod Begins
pub mod Bits
pub mod Found
