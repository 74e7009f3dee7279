mod RunFacts
mod ServingFacts
mod CommandFacts
