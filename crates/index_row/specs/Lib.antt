pub mod Reads
pub mod Faults
pub mod Names
pub mod Ports
pub mod Rows
pub mod Seen
pub mod Answers
