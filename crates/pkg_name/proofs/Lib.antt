mod VersionLaws
pub mod ShortNumbers
pub mod Endings
pub mod PartCuts
pub mod NameTexts
