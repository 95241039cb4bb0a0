pub mod Fielding
pub mod Records
