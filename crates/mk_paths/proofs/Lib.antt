pub mod Placing
pub mod Resolving
