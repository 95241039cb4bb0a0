pub mod Values
pub mod Choices
pub mod Errors
pub mod Lists
pub mod Atoms
