pub mod Records
pub mod Moves
pub mod Answers
pub mod Decoding
pub mod OneToken
pub mod Constructs
pub mod Following
pub mod SameKind
