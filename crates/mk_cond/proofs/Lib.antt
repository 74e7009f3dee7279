pub mod Operands
pub mod Placing
