-- The roots follow from the rows of the paths on which the index depends.
use Rattle.std.proofs.Common.{◌∙◌, ap, map, string_bytes}
use Rattle.std.proofs.lemmas.Result.{IfOk-weaker}
use Rattle.port_index.specs.Dependencies.{roots_among}
use Rattle.port_index.specs.Seen.{entries_in, known_in}
use Rattle.port_index.proofs.known_index.KnownIndex.roots.Goals as goal

pub returns : goal.returns
returns c = λ world is.
    let entries = entries_in c.args.self.now.rows in
    let same = ap (λ items. roots_among (known_in entries) (map string_bytes items)) c.deref.ensures.value
    ∙ ap (roots_among (known_in entries)) is.paths.listed ∙ c.known_rows_are_enough.ensures.roots world entries is.rows in
    IfOk-weaker c.roots_among.result _ _ (λ found are. are ∙ same) c.roots_among.ensures
