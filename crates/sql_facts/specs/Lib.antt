pub mod Tables
pub mod Filled
pub mod States
pub mod Refused
