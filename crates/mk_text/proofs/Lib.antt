pub mod BlankEnds
pub mod CutComments
pub mod Marks
pub mod RunSteps
pub mod WordSteps
