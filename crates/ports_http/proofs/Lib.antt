pub mod FixedReplies
mod OneMoreLemmas
pub mod FieldLemmas
pub mod ConnLemmas
pub mod PutLemmas
pub mod StreamLemmas
pub mod StreamLaws
pub mod DecodeLemmas
