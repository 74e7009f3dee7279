pub mod Blanks
pub mod Words
pub mod Lines
pub mod TextLimit
pub mod Profiles
