pub mod Exits
pub mod Everywhere
pub mod Doubles
pub mod FlavorTests
pub mod OwnValues
pub mod Costs
