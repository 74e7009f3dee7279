mod NumeralFacts
mod PlaceFacts
mod EscapeFacts
mod EntryFacts
mod ScriptFacts
mod PrintFacts
mod WriteFacts
