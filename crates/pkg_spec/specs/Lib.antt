pub mod Alternatives
pub mod NameSet
pub mod Seen
pub mod ReadResults
