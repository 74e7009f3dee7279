pub mod Rows
pub mod Statements
pub mod Tests
pub mod Keyed
pub mod Ending
pub mod Creating
