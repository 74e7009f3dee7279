pub mod Arrows
pub mod Reach
pub mod TextSearch
pub mod Slots
pub mod Numbers
pub mod Listed
pub mod SearchResults
