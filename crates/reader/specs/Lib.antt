pub mod OneTree
pub mod Found
pub mod Lists
pub mod Sentences
