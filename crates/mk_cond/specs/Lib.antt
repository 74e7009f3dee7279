pub mod Forms
pub mod Numbers
pub mod Leaves
pub mod Truths
pub mod Truth
pub mod Tasks
