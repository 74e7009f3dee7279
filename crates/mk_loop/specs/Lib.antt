pub mod LoopWords
pub mod BodyLine
pub mod Header
pub mod Scopes
pub mod Joinings
pub mod Places
pub mod Passes
