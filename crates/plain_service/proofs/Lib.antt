mod BodyLemmas
mod LiteralRoutes
pub mod NeverFails
mod RouteTable
mod TargetLemmas
mod TrimmingLemmas
mod WritingLemmas
mod SpendingLemmas
mod LanguageLemmas
mod NeededOnce
mod FirstEdges
pub mod MatchLemmas
