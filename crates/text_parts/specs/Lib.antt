pub mod Cuts
pub mod Laws
pub mod Order
pub mod Ordered
