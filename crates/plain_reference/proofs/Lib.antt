pub mod Kept
pub mod Filled
pub mod WorkLemmas
