pub mod Numerals
pub mod Escapes
pub mod Entries
pub mod Scripts
pub mod Transcript
pub mod Output
pub mod Failures
