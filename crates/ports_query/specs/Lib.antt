pub mod Conditions
pub mod Candidate
pub mod ListedPackages
pub mod Kinds
pub mod Edges
pub mod Paths
pub mod Reach
