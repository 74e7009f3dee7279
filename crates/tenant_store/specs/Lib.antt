pub mod Holdings
pub mod Tables
pub mod Lengths
pub mod Contents
pub mod Faults
pub mod SettingsRows
pub mod TenantWorld
pub mod Answers
