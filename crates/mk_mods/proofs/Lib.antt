pub mod LastPlaces
pub mod JoinSteps
pub mod Replacing
pub mod ChangeSteps
pub mod Limits
pub mod SignSteps
pub mod ReadSteps
pub mod ViewSteps
pub mod ModifierSteps
pub mod MarkSteps
pub mod SuffixSteps
mod SignTurns
