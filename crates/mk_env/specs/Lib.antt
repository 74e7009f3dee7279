pub mod Texts
pub mod Expansion
pub mod ActiveNames
pub mod Refusals
pub mod Laws
pub mod Mentions
pub mod ExpansionResults
