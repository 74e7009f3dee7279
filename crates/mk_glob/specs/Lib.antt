pub mod Signs
pub mod FirstSigns
pub mod Items
pub mod Matcher
pub mod Brackets
pub mod Steps
pub mod Laws
