pub mod CutSteps
pub mod CutTexts
pub mod PartTexts
