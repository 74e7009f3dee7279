pub mod Version
pub mod Order
pub mod OrderLaws
pub mod Name
pub mod Laws
