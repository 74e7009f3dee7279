-- The entry ahead is passed. Its row may be the one that is asked for.
use Rattle.std.proofs.Common.{◌∙◌, sym, refl}
use Rattle.std.proofs.lemmas.Map.Lookups.{exact_bytes}
use Rattle.port_index.specs.declared.memory_rows.RowFinder.{RowFinder}
use Rattle.port_index.proofs.FindingLemmas.{finder-passed, first-found}
use Rattle.port_index.proofs.memory_rows.RowFinder.search.Goals as goal

pub loop-self-preserved : goal.loop-self-preserved
loop-self-preserved c = λ rows is.
    let new : RowFinder = record { rows = c.loop-self.self.rows; ahead = c.next-self.result; left = c.next-self.new.self } in
    finder-passed rows c.loop-self.self new (c.in-Some.key, c.in-Some.known) (c.loop-self.invariant rows is) c.in-Some.is refl
    c.next-self.ensures.steps

pub returns-in-Equal-clause-row : goal.returns-in-Equal-clause-row
returns-in-Equal-clause-row c = λ rows is.
    first-found rows c.loop-self.self (c.in-Some.key, c.in-Some.known) c.args.path.now (c.loop-self.invariant rows is) c.in-Some.is
    (sym c.as_str.ensures.value ∙ exact_bytes _ c.args.path.now (sym c.cmp.ensures ∙ c.in-Equal.is))

pub returns-in-Equal-clause-finder : goal.returns-in-Equal-clause-finder
returns-in-Equal-clause-finder c = λ rows is.
    let new : RowFinder = record { rows = c.loop-self.self.rows; ahead = c.next-self-in-Equal.result; left = c.next-self-in-Equal.new.self }
    in
    finder-passed rows c.loop-self.self new (c.in-Some.key, c.in-Some.known) (c.loop-self.invariant rows is) c.in-Some.is refl
    c.next-self-in-Equal.ensures.steps
