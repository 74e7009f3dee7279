pub mod KeyLemmas
pub mod PlaceLemmas
pub mod EntryLemmas
pub mod LookLemmas
pub mod OrderLemmas
pub mod UseLemmas
