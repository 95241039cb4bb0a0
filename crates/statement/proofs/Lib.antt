pub mod Spare
pub mod Statements
pub mod Assigned
pub mod Bodies
pub mod Declared
pub mod Initial
