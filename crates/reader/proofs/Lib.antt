pub mod Cases
pub mod Answers
pub mod Demand3
pub mod Starred
pub mod Complaints
