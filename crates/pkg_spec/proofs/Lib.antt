pub mod PartReadings
pub mod Reading
