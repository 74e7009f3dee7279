-- At the end, all that are noted are listed.
use Rattle.std.proofs.Common.{◌∙◌, ap, sym, ◌++◌, append-nil, map, string_bytes}
use Rattle.tenant_store.proofs.Lengths.{noted_names}
use Rattle.tenant_store.proofs.file_lengths.list_of.Goals as goal

pub returns : goal.returns
returns c = λ usage files noted.
    let names = map string_bytes c.loop-name.names.items in
    sym (append-nil names) ∙ ap (λ left. names ++ map string_bytes left) (sym c.in-None.ensures.steps.0) ∙ c.loop-name.invariant.2
    ∙ noted_names c.args.lengths.now usage files noted c.keys-name-items.ensures.ordered
