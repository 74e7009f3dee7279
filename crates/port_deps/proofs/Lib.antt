mod AnyPackage
mod Signs
mod Colons
pub mod PlainPaths
