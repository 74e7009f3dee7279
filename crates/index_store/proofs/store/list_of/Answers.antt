-- At the end, all that are noted are listed.
use Rattle.std.proofs.Common.{◌∙◌, ap, sym, ◌++◌, append-nil, map, string_bytes}
use Rattle.index_store.specs.Entries.{is_one_of}
use Rattle.index_store.proofs.NotedLemmas.{contains-key}
use Rattle.index_store.proofs.store.list_of.Goals as goal

pub returns : goal.returns
returns c = λ path.
    let listed = map string_bytes c.loop-path.listed.items in
    ap (is_one_of path) (sym (append-nil listed) ∙ ap (λ left. listed ++ map string_bytes left) (sym c.in-None.ensures.steps.0)
    ∙ c.loop-path.invariant.2)
    ∙ contains-key c.args.noted.now path
