pub mod TextMap
pub mod Walks
pub mod ExpansionSteps
pub mod InsideParts
pub mod PlainSubstitution
