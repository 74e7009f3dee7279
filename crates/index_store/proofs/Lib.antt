pub mod Fixed
pub mod Changing
pub mod Settling
pub mod Composing
pub mod Answering
pub mod Keeping
pub mod NotedLemmas
