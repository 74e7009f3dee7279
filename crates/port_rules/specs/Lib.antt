pub mod Values
pub mod TextSets
pub mod Flavors
pub mod Packages
pub mod Depends
pub mod Ports
pub mod Records
