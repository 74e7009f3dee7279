pub mod Entries
pub mod PortTable
pub mod Marks
