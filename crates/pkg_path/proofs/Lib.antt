pub mod Bare
pub mod Cutting
pub mod FirstComma
pub mod Rereading
