pub mod Rolls
pub mod Steps
pub mod AtomPlaces
pub mod Paying
pub mod PassSteps
pub mod WholeLine
pub mod IterationSteps
pub mod NameSteps
