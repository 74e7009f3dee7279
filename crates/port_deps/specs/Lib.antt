pub mod ItemText
pub mod Items
pub mod Statuses
pub mod Edges
pub mod Roots
pub mod Seen
