pub mod SpendingLemmas
pub mod PortLemmas
mod TurnsLemmas
