pub mod Tokens
pub mod Scanner
pub mod Trees
pub mod Reader
pub mod Views
pub mod Laws
pub mod Conditions
pub mod Placed
