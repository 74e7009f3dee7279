pub mod Traces
pub mod Recorder
pub mod Agreement
pub mod Recorded
