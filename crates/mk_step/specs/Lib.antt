pub mod Machine
pub mod Points
pub mod Costs
pub mod Views
pub mod Turn
pub mod Steps
