mod KeptLemmas
mod WorldLemmas
mod JobLemmas
mod TurnLemmas
mod ShareLemmas
mod RowLemmas
