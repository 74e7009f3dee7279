pub mod MemoryFiles
pub mod Questions
pub mod AfterQuestions
pub mod Work
pub mod Limits
