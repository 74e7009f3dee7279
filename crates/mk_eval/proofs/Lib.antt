mod Costs
mod Joining
pub mod Searching
pub mod Logged
pub mod Shared
pub mod SharedConditions
pub mod SharedEvaluation
pub mod Steady
pub mod SteadyLoops
pub mod SteadyTexts
pub mod Stepping
