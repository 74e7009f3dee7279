pub mod Ascii
pub mod Bools
pub mod Options
pub mod Lists
pub mod Texts
pub mod Maps
