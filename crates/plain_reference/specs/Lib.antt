pub mod Needed
pub mod Work
pub mod Right
pub mod Findings
pub mod Filled
pub mod Listing
