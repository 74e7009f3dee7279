-- The row that is asked for is the one ahead.
use Rattle.std.proofs.Common.{◌∙◌, ap, sym, refl}
use Rattle.std.proofs.lemmas.Slice.Eq.{bytes_eq-Decides}
use Rattle.std.specs.Str.{bytes_eq}
use Rattle.port_index.specs.declared.memory_rows.RowFinder.{RowFinder}
use Rattle.port_index.proofs.FindingLemmas.{finder-passed, first-found}
use Rattle.port_index.proofs.memory_rows.RowFinder.get.Goals as goal

pub returns-then-eq-clause-row : goal.returns-then-eq-clause-row
returns-then-eq-clause-row c = λ rows is.
    first-found rows c.args.self.now (c.in-Some.key, c.in-Some.known) c.args.path.now is c.in-Some.is
    ((bytes_eq-Decides _ c.args.path.now).0 (ap (λ text. bytes_eq text c.args.path.now) (sym c.as_str.ensures.value)
    ∙ sym c.eq.ensures ∙ c.if-eq.true))

pub returns-then-eq-clause-finder : goal.returns-then-eq-clause-finder
returns-then-eq-clause-finder c = λ rows is.
    let new : RowFinder = record { rows = c.args.self.now.rows; ahead = c.next-self.result; left = c.next-self.new.self } in
    finder-passed rows c.args.self.now new (c.in-Some.key, c.in-Some.known) is c.in-Some.is refl c.next-self.ensures.steps
