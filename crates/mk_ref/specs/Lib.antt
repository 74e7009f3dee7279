pub mod Atoms
pub mod Ends
pub mod Pieces
pub mod Places
pub mod Firsts
pub mod Outside
pub mod Laws
pub mod AtomFacts
