pub mod Adding
pub mod Walks
pub mod FaultNumbers
pub mod NameTexts
pub mod PortBytes
pub mod RowBytes
