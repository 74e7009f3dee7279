pub mod Kept
pub mod Shared
pub mod Prepared
pub mod Turn
pub mod Stored
pub mod RowMarks
