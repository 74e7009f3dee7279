pub mod Faults
pub mod FaultAt
pub mod Meter
pub mod Outcome
pub mod Stops
pub mod Blame
pub mod Each
