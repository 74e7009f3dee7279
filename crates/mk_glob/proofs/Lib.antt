pub mod SignLemmas
pub mod EndLemmas
pub mod FitLemmas
pub mod BracketLemmas
pub mod StepLemmas
pub mod LoopLemmas
