-- The path ahead is one of the paths.
use Rattle.std.proofs.Common.{◌∙◌, ap, sym, map, string_bytes, Bor, List, String, Global}
use Rattle.std.specs.Str.{bytes_eq}
use Rattle.port_index.specs.FilledRows.{is_one_of}
use Rattle.port_index.proofs.SearchLemmas.{one_of-place}
use Rattle.port_index.proofs.path_finder.PathFinder.has.Goals as goal

pub returns-then-eq-clause-has : goal.returns-then-eq-clause-has
returns-then-eq-clause-has c = λ paths finds ordered.
    let path = c.args.path.now in
    sym (ap (is_one_of path) (sym finds ∙ ap (λ (lent : Bor (List (String Global))). map string_bytes lent.now) (sym c.loop-self.invariant))
    ∙ one_of-place c.loop-self.self.paths.now c.loop-self.self.place c.index-self-self.result path
    c.loop-self-test.true c.index-self-self.is
    (ap (λ (one : String Global). bytes_eq (string_bytes one) path) c.index-self-self.is
    ∙ ap (λ text. bytes_eq text path) (sym c.as_str-ahead.ensures.value) ∙ sym c.eq.ensures ∙ c.if-eq.true))
